-- The definitions of the store: Layout has the check, Rows what a store says, Spans where the rows of each table stand.
-- Assumes nothing.
pub mod Layout
pub mod Rows
pub mod Spans
