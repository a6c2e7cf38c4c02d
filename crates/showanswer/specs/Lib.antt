-- What is printed of an answer.
-- Assumes nothing.
pub mod Shown
