-- The laws of members and branch points: what they are, how many, and how many of them lead a query.
pub mod Members
pub mod Sizes
pub mod Counts
pub mod Steps
pub mod Worked
