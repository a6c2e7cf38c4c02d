-- The laws of trees: what is known of a class, sizes, what an accepted value tells of its parts and they of it, the places of the writers, the data from notes, and the prefix order read back.
-- Assumes nothing.
pub mod Infos
pub mod Sizes
pub mod Resolved
pub mod Narrow
pub mod Accepted
pub mod Parts
pub mod Answers
pub mod Writing
pub mod Writers
pub mod Leaves
pub mod Turns
pub mod Reach
pub mod Gives
pub mod Notes
pub mod Noting
pub mod Prefix
