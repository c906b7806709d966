-- What the steps of a batch ask and leave.
pub mod Buffers
