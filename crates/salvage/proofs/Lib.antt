-- Why: what is tallied, the file of what the passes leave, and what the call answers.
pub mod Tallies
pub mod Files
pub mod Returns
pub mod Outcomes
