-- The words that each plan leaves.
pub mod Acted
