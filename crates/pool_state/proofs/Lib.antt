-- The laws of a pool, from the bottom up.
-- States: their rules and sums, and another set in the place of one.
pub mod Claims
pub mod WithSet
-- What a call answers and leaves by its rules.
pub mod Answered
-- How a list is kept in words.
pub mod Kept
pub mod FormLaws
-- The header and layout, by the tests and the loops of the code.
pub mod Header
pub mod Setups
-- Words that hold a state: it is decoded there and nowhere else.
pub mod Holds
pub mod Encoded
pub mod Indexed
pub mod Whole
pub mod Decoded
-- What a pass over a pool has seen of one set, where it is seated, and of another set beside it.
pub mod Seen
pub mod Seats
pub mod Beside
-- A change of one set: judged, linked again, written, answered.
pub mod Judged
pub mod Relinked
pub mod Changed
pub mod Reindexed
pub mod Restated
pub mod Planned
pub mod Returns
pub mod Counted
-- The same for a set as a trie.
pub mod OnTries
pub mod OnKept
-- What each call comes to: one outcome, and what it leaves.
pub mod Determined
pub mod Filled
pub mod Past
pub mod Leaves
pub mod Resurveyed
