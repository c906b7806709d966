-- How many nodes a result has at most; the sources of a combination, and its returns.
pub mod Sizes
pub mod Calls
