-- The smallest address; what is left of two files; halves that are neighbours; the answers.
pub mod Smallest
pub mod Lefts
pub mod Tight
pub mod Verdicts
pub mod Going
pub mod Answers
pub mod Truthful
