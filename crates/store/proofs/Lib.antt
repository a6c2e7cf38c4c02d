-- The laws of the store: of its check, and of what an accepted one has.
-- Assumes nothing.
pub mod Table
pub mod Meaning
pub mod Laws
pub mod Faultless
pub mod Lists
pub mod Stores
pub mod Cells
pub mod Arrays
pub mod Samples
