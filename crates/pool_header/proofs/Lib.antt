-- The header by the tests of the code.
pub mod Strides
