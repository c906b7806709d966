-- The laws of the first steps of a combination, from the bottom up.
-- Words that move, and how many nodes a set has.
pub mod Shifted
pub mod Extents
-- What an operation makes of two tries, and the sources of a combination.
pub mod Operations
pub mod SetSources
-- What is asked first.
pub mod Asked
