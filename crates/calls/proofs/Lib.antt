-- The laws of a run: what a call leaves, one call after another, that a run has one outcome, and what it leaves past it.
pub mod Done
pub mod Turns
pub mod Outcomes
pub mod Past
