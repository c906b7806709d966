-- Walks side by side.
pub mod Lanes
