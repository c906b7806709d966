-- A gap opened, and a result written into it; the sources of a combination, and its returns.
pub mod Gaps
pub mod Calls
