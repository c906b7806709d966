-- What a reader of lines holds.
pub mod Kept
