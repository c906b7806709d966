-- The laws of going through a trie for its ranges: ranges opened and closed one after the other; a step by the words; the turns of the loop.
pub mod Standing
pub mod Steps
pub mod Turns
