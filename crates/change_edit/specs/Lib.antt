-- What the contracts cite: a network into the list of a set, or out of it.
pub mod Steps
