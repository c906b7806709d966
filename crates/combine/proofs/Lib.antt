-- What the calls on two sets come to.
pub mod Outcomes
