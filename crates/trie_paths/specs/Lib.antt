-- What going through a trie speaks of: a trie to be read and where it stands, the row of a network, the road on which rows are laid, and the networks still to come on the way.
pub mod Spans
pub mod Rows
pub mod Laying
pub mod Preorder
