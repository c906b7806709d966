-- The walk through a set, and the networks at a place and at the end of its list.
pub mod Walks
pub mod Places
