-- The laws of the listing: its returns, its loop, and the outcomes of the call.
pub mod Begun
pub mod Stored
pub mod Outcomes
