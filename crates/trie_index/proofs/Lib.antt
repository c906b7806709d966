-- Why the index is right: rows of numbers, where the walks of the strings of at most eight bits stand, and the loops over their words.
pub mod Fill
pub mod Ways
pub mod Words
