-- The network that follows a place, among nodes in any order; and the next of the same length, from a node on.
pub mod Nearer
pub mod Behind
