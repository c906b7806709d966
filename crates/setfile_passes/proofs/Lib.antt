-- What is shared by the passes, then each of them.
pub mod Passes
pub mod Cuts
pub mod Fills
