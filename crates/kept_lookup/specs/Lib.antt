-- The walk of a lookup in the second form.
pub mod Walks
