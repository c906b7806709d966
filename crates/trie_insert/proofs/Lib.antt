-- Why: putting a path in, and the nodes that the trie then has.
pub mod Insertion
pub mod Counting
