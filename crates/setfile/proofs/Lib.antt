-- The laws of loading: the trie of a file's list in the place of its set, and the returns and outcomes of the call.
pub mod Filling
pub mod Loads
pub mod LoadOutcomes
