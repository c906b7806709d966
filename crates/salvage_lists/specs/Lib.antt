-- What a reader must believe of a salvage; then the road on which it is reached.
pub mod Salvaging
pub mod Ahead
