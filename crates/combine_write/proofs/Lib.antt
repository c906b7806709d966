-- A gap opened, and a result written into it; or a source copied.
pub mod Gaps
pub mod Copied
