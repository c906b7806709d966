-- A trie in the used words before and after a path is put in.
pub mod Insert
