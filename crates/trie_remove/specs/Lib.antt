-- A trie in the used words before and after a path is taken out.
pub mod Removal
