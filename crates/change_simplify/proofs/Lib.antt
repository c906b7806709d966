-- Why: simplifying a set.
pub mod Simplified
