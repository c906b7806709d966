-- The laws of writing the trie of networks in the second form: the first bits of a network, a trie from its first network up, the loop over the networks, a
-- file's list, and counting.
pub mod Leading
pub mod Climbing
pub mod Growing
pub mod Filling
pub mod Tallying
