-- Networks as ranges of numbers; address words; what a file has still to give, from its first network on.
pub mod Ranges
pub mod AddressWords
pub mod Standing
pub mod Opened
