-- The turns of the loop.
pub mod Turns
