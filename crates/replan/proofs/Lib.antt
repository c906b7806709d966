-- The returns of `replan`, and what it comes to.
pub mod Plans
pub mod Outcomes
