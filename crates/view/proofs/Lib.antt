-- The laws of a view: what its records say, how the code's answers tell the parser's, and what an accepted view holds.
-- Assumes nothing.
pub mod Children
pub mod Constants
pub mod Induction
pub mod Laws
pub mod Nodes
pub mod Read
pub mod Rules
pub mod Samples
pub mod Says
pub mod Shapes
pub mod Turns
pub mod Whole
