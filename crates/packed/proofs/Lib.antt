-- The laws of an outcome in one word. For callers: Laws, Nodes (a tree's nodes over words), Constants. For the functions: Words, Returns, Testing, Operating, Stored, Counting.
-- Assumes nothing.
pub mod Laws
pub mod Nodes
pub mod Constants
pub mod Words
pub mod Returns
pub mod Testing
pub mod Operating
pub mod Stored
pub mod Counting
