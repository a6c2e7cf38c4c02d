-- The definitions of names and types: Expr, Totals and Resolve have the rules, Infos and Sizes what is known of a class and of the trees,
-- Notes what the walk notes of each record, Typed its answer, Steps its steps, Claims what it requires. Assumes nothing.
pub mod Expr
pub mod Totals
pub mod Resolve
pub mod Notes
pub mod Infos
pub mod Sizes
pub mod Typed
pub mod Steps
pub mod Claims
pub mod Opened
