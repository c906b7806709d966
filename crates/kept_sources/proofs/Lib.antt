-- The laws of sources.
pub mod Meaning
