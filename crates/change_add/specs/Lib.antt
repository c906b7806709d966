-- What the contracts cite: adding to a set that is found.
pub mod Steps
