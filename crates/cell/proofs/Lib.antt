-- The laws of types and values: Typing and Sound are for the layers above, the others for the functions of this crate.
-- Assumes nothing.
pub mod Equal
pub mod Options
pub mod Ranges
pub mod Judging
pub mod Words
pub mod Typing
pub mod Applying
pub mod Sound
pub mod Signed
pub mod Tens
