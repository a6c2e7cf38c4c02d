-- The laws of what is printed of an answer.
-- Assumes nothing.
pub mod Laws
