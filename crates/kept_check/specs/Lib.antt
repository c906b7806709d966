-- What a turn of the check speaks of.
pub mod Turns
