-- The members of a trie as its nodes give them, from the last to the first; then what is made of them, one by one.
pub mod Scanned
pub mod Turns
