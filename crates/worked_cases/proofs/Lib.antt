-- The proof of the worked cases.
-- Assumes nothing.
pub mod Worked
