-- The pass over the tags and indexes of the sets, which completes the check.
pub mod Indexes
