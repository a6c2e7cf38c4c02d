-- What is printed of a case.
-- Assumes nothing.
pub mod Shown
