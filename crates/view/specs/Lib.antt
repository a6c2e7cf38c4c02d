-- The definitions of a view: what its records say, its syntax tree, and the parser that the check follows.
-- Assumes nothing.
pub mod Record
pub mod Ast
pub mod Parse
pub mod Walk
