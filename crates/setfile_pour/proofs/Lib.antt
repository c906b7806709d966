-- The passes put together.
pub mod Pouring
