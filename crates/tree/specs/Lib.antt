-- The definitions of trees: Tree has trees and their records, Trans D and C, Select the whole tree, Claims the value at a record, Levels what the writers say of it, Noted the data from notes, Prefix the order read back.
-- Assumes nothing.
pub mod Tree
pub mod Trans
pub mod Select
pub mod Claims
pub mod Noted
pub mod Prefix
pub mod Levels
