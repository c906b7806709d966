-- Why: what is left of a trie without a path, a step down, what takes its place in the words, and the way back.
pub mod Remains
pub mod Descent
pub mod Splices
pub mod Inward
