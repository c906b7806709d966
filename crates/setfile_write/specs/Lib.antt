-- What writing a file asks and leaves.
pub mod Saving
