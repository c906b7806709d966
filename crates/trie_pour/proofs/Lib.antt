-- The laws of pouring, the set operation that it is, what is done at a node, and closed cases.
pub mod Pour
pub mod Operation
pub mod Parts
pub mod Worked
