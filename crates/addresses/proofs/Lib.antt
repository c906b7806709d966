-- The number that bytes and groups write, by words.
pub mod Words
