-- The definitions of names: Scopes has the rule, Entry an entry, Table what the entries of a table say, Match parts of an answer, Blocks a block's tables.
-- Assumes nothing.
pub mod Scopes
pub mod Table
pub mod Match
pub mod Blocks
pub mod Entry
