-- What a reader must believe of networks: bit strings, lists of networks and what each call makes of them, shortest lists, orders of merges, refusals, a
-- network's numbers.
-- Tries and TrieOps are the road: where a definition of Lists goes through a trie, a law gives the scope document's sentence and says that it leaves one list.
pub mod Bits
pub mod Lists
pub mod Shortest
pub mod Groupings
pub mod Refusals
pub mod Numbered
pub mod Networks
pub mod Tries
pub mod TrieOps
