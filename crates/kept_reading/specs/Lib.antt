-- What reading a node gives and asks for.
pub mod NodeStrings
