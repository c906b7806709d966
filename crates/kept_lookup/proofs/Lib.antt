-- The laws of the walk: its turns by the code's tests, and what it finds in a trie.
pub mod Turning
pub mod Searched
