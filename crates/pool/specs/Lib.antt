-- What the contract of `words` cites.
pub mod Words
