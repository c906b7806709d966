-- What is left of a trie for pouring, and what of it is left in the words of the second form: by marks, and without the nodes that are gone.
pub mod Spare
pub mod Marks
