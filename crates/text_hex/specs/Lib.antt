-- What a reader must believe of hexadecimal digits in bytes.
pub mod Hex
