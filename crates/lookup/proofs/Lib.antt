-- The laws of the lookups, from the bottom up: where a path begins, the rules by the tests of the calls, the answers, and the lists of a sound pool.
pub mod Beginnings
pub mod Cuts
pub mod Asked
pub mod Replies
pub mod Firsts
pub mod Seconds
pub mod OnLists
pub mod Examples
