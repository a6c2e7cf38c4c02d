-- What the check of names and types requires, from what the checks of the files gave.
-- Assumes nothing.
pub mod Laws
