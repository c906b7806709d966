-- The comparison of two sets by their words, and what the call comes to.
pub mod Blocks
pub mod Compared
pub mod Outcomes
