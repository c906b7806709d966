-- The listing into a row of networks.
pub mod Rows
