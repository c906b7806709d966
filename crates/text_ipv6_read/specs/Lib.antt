-- What a reader must believe: the grammar of a line, and the reading of one. Places says what the inner functions do.
pub mod Ipv6
pub mod Reader
pub mod Places
