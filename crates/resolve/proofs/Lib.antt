-- The laws of the walk. For the layers above: Inversion has what an accepted value tells of its parts, Equations one equation for each kind,
-- Weights what is known of an expression from its parts, Kept and Narrow what every type has; the rest serves the proofs of the functions. Assumes nothing.
pub mod Inversion
pub mod Kept
pub mod Narrow
pub mod Weights
pub mod Leaves
pub mod Tables
pub mod Entries
pub mod Equations
pub mod Turns
pub mod Scoped
pub mod Noting
pub mod Noted
pub mod NotedBlocks
pub mod Roots
pub mod NotedRoots
pub mod Samples
