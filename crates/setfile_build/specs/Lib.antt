-- What writing a trie of networks asks and leaves.
pub mod Building
