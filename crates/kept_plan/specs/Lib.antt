-- One network into a trie of the second form or out of it, and what is planned for it.
pub mod Change
