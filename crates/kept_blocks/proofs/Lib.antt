-- The blocks beside a network.
pub mod Remaining
