-- What the passes ask and leave.
pub mod Parts
