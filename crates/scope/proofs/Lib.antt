-- The laws of names: Locals for a local's entry, Hits for parts of an answer, Columns for a table, Search for an entry and for the open scopes, Pushes for a scope opened, Opening for a block opened, Blocks for the tables of one, Named for a block's tables by their names.
-- Assumes nothing.
pub mod Locals
pub mod Hits
pub mod Columns
pub mod Search
pub mod Pushes
pub mod Opening
pub mod Blocks
pub mod Named
pub mod Samples
