-- The laws of a salvage on lists: networks apart in address order, chains of them, lists thinned to chains, and what is left.
pub mod Ahead
pub mod Chains
pub mod Thinning
pub mod Left
pub mod Counts
