-- The definitions of an outcome in one word: Packed has the word, Outcomes what callers read off it, Constants a constant's record.
-- Assumes nothing.
pub mod Packed
pub mod Outcomes
pub mod Constants
