-- Simplifying step by step; a trie in which nothing joins is its own simplified form, and is moved as a block.
pub mod Simplify
pub mod Plain
pub mod Blocks
