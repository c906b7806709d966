-- What pouring a file into a trie, or out of it, asks.
pub mod Pouring
