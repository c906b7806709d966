-- How far one has come who goes through a set.
pub mod Spots
