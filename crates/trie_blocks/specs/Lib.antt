-- Where halves join in the words of a trie, and what simplify reads.
pub mod Joins
pub mod Simplify
