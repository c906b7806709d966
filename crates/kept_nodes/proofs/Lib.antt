-- The laws of the second form, from the bottom up: places, tries below a string, the words of a node, what is read and what stands there.
pub mod Places
pub mod Hung
pub mod NodeWords
pub mod Parsed
pub mod Heads
pub mod Unique
