-- The laws of reading a node: strings by words, and what the words of a node give.
pub mod ByWords
pub mod Found
