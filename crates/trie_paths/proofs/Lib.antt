-- The laws of going through a trie: reading it, its paths as networks, its levels, counting, what is still to come on the way and its tally, the rows at their places and a turn of
-- laying them there.
pub mod Reading
pub mod Paths
pub mod Levels
pub mod Counting
pub mod Stacks
pub mod Tallying
pub mod Placing
pub mod Turns
pub mod RowForm
