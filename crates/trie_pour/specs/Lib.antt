-- Many networks into a trie or out of it at once: what it gives, and what is done at a node.
pub mod Pour
pub mod Parts
