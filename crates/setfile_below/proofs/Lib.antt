-- The networks below a path and below its halves; what the stream says of them.
pub mod Halves
pub mod Streams
