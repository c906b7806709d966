-- Two tries by where they begin and end, and what is written of a result.
pub mod Extents
