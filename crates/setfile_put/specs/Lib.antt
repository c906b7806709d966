-- What writing an entry asks and leaves.
pub mod Putting
