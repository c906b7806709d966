-- What a number means as a source of a set operation.
pub mod Sources
