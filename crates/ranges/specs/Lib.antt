-- What a reader must believe of ranges: those of a list, the networks of one, and addresses and ranges as words.
pub mod Ranges
pub mod Blocks
pub mod Addresses
