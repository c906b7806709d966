-- What going through a trie for its ranges speaks of: no public contract does.
pub mod Opening
