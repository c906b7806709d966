-- The laws of walks side by side: one that goes on, and walks in a row of numbers.
pub mod Going
pub mod LaneRows
