-- What a reader must believe of many lookups in one call; and what the inner functions ask of each other.
pub mod Rules
pub mod Lanes
