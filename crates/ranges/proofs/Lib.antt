-- The laws of ranges: ranges apart, and joining them; the ranges of a list; the trie of a range, its networks and adding them; addresses as words; cases by
-- hand.
pub mod Spaced
pub mod Joined
pub mod OfLists
pub mod InBlocks
pub mod OfRanges
pub mod Words
pub mod Worked
