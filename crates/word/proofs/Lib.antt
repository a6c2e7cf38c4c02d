-- The laws of numbers, records and headers in bytes, and of writing into a buffer.
-- Assumes nothing.
pub mod Laws
pub mod Writing
pub mod Refusals
