-- The definitions of lines and numbers in a text, of how many bytes came, and of what is printed of a refusal.
-- Assumes nothing.
pub mod Counts
pub mod Shown
pub mod Text
