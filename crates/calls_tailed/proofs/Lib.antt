-- The laws of the calls that carry more than a record: what is read from a tail, and the tails that are lent to a call; one outcome.
pub mod Read
pub mod Lent
pub mod Determined
