-- The run of trees: Run has the definition, Answer the answer, Stands where a tree stands in bytes; Words, Env, Folds, Claims and Select what the
-- functions hold: the tree in words, the open scopes, a block's fold, and what is required and ensured. Assumes nothing.
pub mod Run
pub mod Answer
pub mod Stands
pub mod Words
pub mod Env
pub mod Folds
pub mod Claims
pub mod Select
