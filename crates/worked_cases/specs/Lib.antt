-- The worked cases, as a table.
-- Assumes nothing.
pub mod Cases
