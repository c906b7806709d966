-- What a set file is.
pub mod Files
