-- The laws of going on from a place.
pub mod Resuming
