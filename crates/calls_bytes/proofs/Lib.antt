-- The laws of the bytes: what is written, and the loops that write rows.
pub mod Written
pub mod Rows
