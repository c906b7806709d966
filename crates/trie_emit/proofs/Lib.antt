-- The laws of lazy emission, from the bottom up.
pub mod Answers
pub mod Sources
pub mod Combine
pub mod Search
