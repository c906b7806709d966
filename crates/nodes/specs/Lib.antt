-- Tries in words: writes and segments, the encoding, the trie that stands at a node, a trie in the middle of the used words.
pub mod Words
pub mod Parse
pub mod Links
pub mod Segments
