-- A law for each return.
pub mod Returns
