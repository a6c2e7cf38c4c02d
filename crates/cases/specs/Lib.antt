-- The definitions of the cases: Opening says what stands where, Digest what a lent buffer is filled with and comes to.
-- Assumes nothing.
pub mod Digest
pub mod Opening
