-- Why: entries in bytes, read, written and sorted; networks by their numbers.
pub mod Places
pub mod Orders
pub mod Sorts
pub mod Thinnings
pub mod Holdings
pub mod Takings
