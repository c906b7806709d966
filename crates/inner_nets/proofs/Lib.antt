-- Overlap of networks and of lists; the part of a trie inside a network; what each changing call leaves of a public list; the inner networks; overlap by
-- addresses.
pub mod Overlaps
pub mod Parts
pub mod Public
pub mod InnerLists
pub mod Addresses
pub mod BitWords
pub mod Numbered
pub mod Worked
