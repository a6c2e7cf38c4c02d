-- The definitions of the catalogue: Fault has the check, Tables what a catalogue says, Starts where its tables stand.
-- Assumes nothing.
pub mod Fault
pub mod Rising
pub mod Tables
pub mod Starts
