-- What a reader must believe of what a call does, and of a run.
pub mod Effects
pub mod Runs
