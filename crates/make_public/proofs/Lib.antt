-- The returns of `make_public`, and what it comes to.
pub mod Marks
pub mod Outcomes
