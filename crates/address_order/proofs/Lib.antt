-- The laws of the address order: bit strings, the bits that they share, and lists that rise in it; the members of a trie in that order, their nodes, and those of each length; a list put in
-- that order, by lanes. Streams has those that other crates cite, in one place. Common: shared bits by words.
pub mod AddressOrder
pub mod Shared
pub mod Rising
pub mod Flat
pub mod PathNodes
pub mod Lengths
pub mod Sorted
pub mod Lanes
pub mod Streams
pub mod Common
