-- What writing the file of a range asks and leaves.
pub mod Edges
