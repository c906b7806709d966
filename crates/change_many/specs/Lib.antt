-- The calls that take many networks in or out at once; then the steps that they share.
pub mod Calls
pub mod Steps
