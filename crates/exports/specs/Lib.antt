-- What the exported calls answer and leave.
pub mod Exported
