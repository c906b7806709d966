-- The networks below a path.
pub mod Stream
