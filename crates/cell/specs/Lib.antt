-- The definitions of types and values, of the type rules, and of the operators on values.
-- Assumes nothing.
pub mod Res
pub mod Op
pub mod Types
pub mod Values
pub mod Apply
