-- What writing the trie of networks in the second form asks and leaves.
pub mod Building
