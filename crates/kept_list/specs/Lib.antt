-- A trie of the second form that is listed.
pub mod Listed
