-- What writing the file of a trie in the second form asks.
pub mod Saved
