-- Why this gives the simplified trie: the first kept node, parts in which nothing joins, what is written over two halves, the steps down, and the list.
pub mod Tops
pub mod Plain
pub mod Written
pub mod Shrinking
pub mod Lists
