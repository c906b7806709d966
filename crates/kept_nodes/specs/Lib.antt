-- Tries in the second form: the words of members and branch points, and the trie that arbitrary words hold.
pub mod Words
pub mod Parse
