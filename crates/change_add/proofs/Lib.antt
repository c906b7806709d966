-- Why: adding to a set that is found.
pub mod Growing
