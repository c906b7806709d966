-- What the pass over a pool says of one of its sets.
pub mod Sets
