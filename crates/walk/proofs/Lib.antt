-- The laws of the walk: where it begins, one step, and the list that it comes past; going to a place of the list; the outcomes.
pub mod Steps
pub mod Reached
pub mod Outcomes
