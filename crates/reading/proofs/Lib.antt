-- The proofs of the theorem that ties the tree to the reading rules, from lists and names up to the statements over bytes.
-- Assumes nothing.
pub mod Lists
pub mod Lattice
pub mod Inversion
pub mod WellTyped
pub mod Names
pub mod Scopes
pub mod References
pub mod Folds
pub mod Data
pub mod Classes
pub mod Select
pub mod Whole
pub mod Files
pub mod Main
pub mod Samples
