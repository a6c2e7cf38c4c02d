-- The law of what is printed of a tree.
-- Assumes nothing.
pub mod Laws
