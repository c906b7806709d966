-- What the contracts cite.
pub mod Lanes
