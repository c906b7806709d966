-- Why: the networks between two edges, level by level; edges on the way down; entries laid one behind the other; the file of a range.
pub mod Asides
pub mod OfRange
pub mod Walking
pub mod Laying
pub mod Files
