-- The laws of the catalogue: Rising, Laws and Places for the code; Meaning, Faultless and Listed for whoever takes an accepted one; Samples worked cases.
-- Assumes nothing.
pub mod Rising
pub mod Laws
pub mod Meaning
pub mod Places
pub mod Faultless
pub mod Listed
pub mod Samples
