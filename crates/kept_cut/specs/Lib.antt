-- What the functions that cut a trie of the second form ask and leave.
pub mod Cuts
