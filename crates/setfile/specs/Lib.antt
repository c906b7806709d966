-- The calls on set files; then what the inner functions cite.
pub mod Calls
pub mod Loading
pub mod LoadSteps
