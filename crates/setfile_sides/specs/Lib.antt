-- What the functions cite of a file that is gone through.
pub mod Sides
