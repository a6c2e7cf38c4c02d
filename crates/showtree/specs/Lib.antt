-- What is printed of a tree.
-- Assumes nothing.
pub mod Shown
