-- What a change makes of a trie; which plan is right.
pub mod Changed
pub mod Plans
