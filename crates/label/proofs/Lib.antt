-- The laws of the class writer.
-- Assumes nothing.
pub mod Bridge
pub mod Joins
pub mod FromLeft
pub mod Parts
pub mod Turns
pub mod Whole
pub mod Left
pub mod Counts
pub mod Roots
