-- Laws of the run: Encodes says that what was written stands, Ends, Records, Lays and Holding how it is read into words; Scoping, Opening and
-- Kept and Totals what words hold; Shapes, Nodes, Known, Products, Blocks, Turns and Levels the run; the others the answer. Assumes nothing.
pub mod Encodes
pub mod Ends
pub mod Records
pub mod Lays
pub mod Holding
pub mod Scoping
pub mod Opening
pub mod Kept
pub mod Totals
pub mod Shapes
pub mod Nodes
pub mod Known
pub mod Products
pub mod Blocks
pub mod Turns
pub mod Levels
pub mod Collecting
pub mod Showing
pub mod Pairing
pub mod Choosing
pub mod Filling
pub mod Answering
