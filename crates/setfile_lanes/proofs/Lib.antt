-- Why: the numbers of the cursors, by words; the entries as networks, by lengths, and lined up; the lanes in the order of their next entries.
pub mod Cursors
pub mod Read
pub mod Halving
pub mod Lines
pub mod Sorting
