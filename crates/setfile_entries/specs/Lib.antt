-- What the checks of entries ask of a network.
pub mod Entries
