-- What a reader must believe of address order.
pub mod Streams
