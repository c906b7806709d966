-- The networks of a file in address order: what is answered.
pub mod Flow
