-- The call; then what the inner functions cite.
pub mod Calls
pub mod Parts
