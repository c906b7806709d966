-- One number tells every part of an answer.
pub mod Parts
