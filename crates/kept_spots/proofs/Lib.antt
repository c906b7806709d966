-- The spots from which one can go on.
pub mod Onward
