-- The definitions of classes, and of what is known of a class before a row is read.
-- Assumes nothing.
pub mod Class
pub mod Info
