-- The law of the changing calls.
pub mod Changing
