-- The plain reading of a view, and what is proved of the tree against it.
-- Assumes nothing.
pub mod Reading
pub mod Demands
