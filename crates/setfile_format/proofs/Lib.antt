-- The laws of set files: the bytes of a number, a list's file is read back, and nothing else is read; then the entries of a file, in its order and in address order.
pub mod Bytes
pub mod Written
pub mod RoundTrip
pub mod FileOrder
pub mod Reading
pub mod Examples
