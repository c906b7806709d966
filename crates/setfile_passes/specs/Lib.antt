-- What the functions that pour a file into a trie, or out of it, ask and leave.
pub mod Passing
