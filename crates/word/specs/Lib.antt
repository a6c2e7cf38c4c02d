-- The definitions of numbers, records and headers in bytes, and of writing into a buffer.
-- Assumes nothing.
pub mod Bytes
pub mod Buffer
pub mod Header
pub mod Record
pub mod Refusal
pub mod Writer
