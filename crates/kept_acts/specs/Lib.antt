-- What a change writes in the place of a trie.
pub mod Acts
