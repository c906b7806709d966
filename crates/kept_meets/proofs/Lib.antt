-- The part of what a number means, and of an operation on two, inside a network.
pub mod Inside
pub mod Operation
