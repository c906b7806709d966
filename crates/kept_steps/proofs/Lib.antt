-- What is seen of a trie, its halves where they stand, and the whole with one of them changed.
pub mod Views
pub mod Halves
