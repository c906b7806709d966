-- The index of a trie by its first eight bits.
pub mod Index
