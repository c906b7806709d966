-- What a reader must believe of the calls that carry more than a record: sets from tails, and the tails of answers.
pub mod Reading
pub mod Tailed
