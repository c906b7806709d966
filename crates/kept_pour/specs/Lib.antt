-- What the functions that pour a file into a trie of the second form, or out of it, ask and leave.
pub mod Pouring
pub mod Parts
pub mod Passing
