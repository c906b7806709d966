-- The network that follows a place.
pub mod Following
