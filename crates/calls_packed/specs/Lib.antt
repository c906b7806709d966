-- Answers in one number, and the row of a network.
pub mod Packed
