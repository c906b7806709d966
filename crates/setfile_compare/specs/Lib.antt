-- What is due of two set files; then what the inner functions cite.
pub mod Comparing
pub mod Truths
pub mod Abreast
