-- The laws of entries: the numbers of bytes, networks with no bits past their lengths, and the checks in the order of the file.
pub mod Numbers
pub mod Headers
pub mod Clean
pub mod Ordered
