-- The call that writes a set's file; then what its inner function cites.
pub mod Calls
pub mod SaveSteps
