-- Marks over halves, the steps of marking, and the two passes together.
pub mod Closed
pub mod Steps
pub mod Forks
