-- The laws of the kinds of calls: codes that have one kind, and how a call is judged.
pub mod Tables
pub mod Judged
