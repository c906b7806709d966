-- The laws of saving: the returns and outcomes of the call.
pub mod Returns
pub mod Outcomes
