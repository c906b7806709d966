-- What is left of a trie, its words with marks, and what each function does with them.
pub mod Spares
pub mod Marked
pub mod Sieving
pub mod Branches
pub mod Worked
