-- What the contracts cite: the call, and its step in place.
pub mod Simplified
