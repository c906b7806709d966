-- What writing a node asks for and leaves.
pub mod Writes
