-- The laws of combining two tries by where they end.
pub mod Flat
pub mod Forks
pub mod Counts
