-- The pass over the sets of a pool: what it finds is what decode does, turn by turn of the loop.
pub mod Scan
pub mod Pass
pub mod Rights
