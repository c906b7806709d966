-- A law for each return, and the outcomes.
pub mod Calls
pub mod Outcomes
