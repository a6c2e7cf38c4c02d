-- The definitions of the class writer: Claims what it requires of a record, Rows a block's row classes from the left, Levels both over a writer's level.
-- Assumes nothing.
pub mod Claims
pub mod Rows
pub mod Found
pub mod Whole
pub mod Left
pub mod Levels
