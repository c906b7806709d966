-- Where halves join in the words of the second form, and what simplify reads and writes.
pub mod Joins
pub mod Shrinks
