-- Lazy emission: what is answered and written of a trie, what an operation reads.
pub mod Answers
pub mod Combine
