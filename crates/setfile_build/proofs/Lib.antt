-- The laws of writing a trie of networks: a bit of an address, a trie that grows at its right end, a network's path, and the loop over the networks.
pub mod Digits
pub mod Growing
pub mod Chaining
pub mod Building
pub mod Filling
