-- What is left of a member without a network inside it.
pub mod Blocks
