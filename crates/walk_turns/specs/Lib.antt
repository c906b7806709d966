-- What is told of a place of a list.
pub mod Turns
