-- A trie of the second form in the middle of the used words, and what is seen of it at its root.
pub mod Segments
