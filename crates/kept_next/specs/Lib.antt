-- The network that follows a place, among nodes in any order; and the next of the same length.
pub mod Nearest
pub mod Lanes
