-- The laws of lines and numbers in a text.
-- Assumes nothing.
pub mod Laws
