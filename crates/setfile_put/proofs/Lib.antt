-- Stores of bytes, one behind another.
pub mod Stores
