-- The laws of the two public jobs.
-- Assumes nothing.
pub mod Formed
pub mod Fitting
pub mod Sound
pub mod Standing
pub mod Left
pub mod Only
pub mod Ways
pub mod Trees
pub mod Answers
pub mod Numbers
pub mod Reading
pub mod Samples
