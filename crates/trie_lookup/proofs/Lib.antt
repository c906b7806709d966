-- The laws of the walk: by the tests of the code, from the root on and from the word of an index; how far it goes, and what it finds in a trie.
pub mod Turns
pub mod Openings
pub mod Within
pub mod Searched
