-- The laws of tries in words, from the bottom up.
pub mod Put
pub mod Has
pub mod Tries
pub mod Parsed
pub mod Unique
pub mod Check
pub mod Move
pub mod Linked
pub mod Chains
pub mod Segments
pub mod Views
pub mod Zeros
