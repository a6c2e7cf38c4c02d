-- The laws of openings, of the fill and of the digest.
-- Assumes nothing.
pub mod Laws
