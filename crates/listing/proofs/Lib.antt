-- What stands in a seat in either form; the trie of a set in its seat; the calls on a set, and their outcomes.
pub mod ByForm
pub mod Seats
pub mod Calls
pub mod Outcomes
