-- The laws of many lookups in one call: rows of answers, the answers by walks that go on, a law for each return, the outcomes, and a small pool.
pub mod Rows
pub mod Ending
pub mod Calls
pub mod Outcomes
pub mod Examples
