-- What a reader must believe: the groups of an address and the text that is written for them; what RFC 5952 asks of a text.
pub mod Ipv6
pub mod Rfc5952
pub mod Runs
