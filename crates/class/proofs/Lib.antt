-- The laws of classes, and of what is known of a class.
-- Assumes nothing.
pub mod Laws
pub mod Infos
