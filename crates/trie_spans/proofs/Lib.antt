-- The laws of a trie by where it begins and ends, from the bottom up.
pub mod Spans
pub mod Alone
pub mod Answered
pub mod Halving
pub mod Spread
