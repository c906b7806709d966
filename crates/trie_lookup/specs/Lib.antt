-- The walk of a lookup in the first form.
pub mod Walks
