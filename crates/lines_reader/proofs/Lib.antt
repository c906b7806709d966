-- The laws: bytes pushed one after the other, in a loop over a slice.
pub mod Pushing
