-- The reports that are made of what the pass over a pool has seen.
pub mod Reports
-- The words that a pool needs.
pub mod Needed
