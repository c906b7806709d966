-- Why: what pouring leaves, said of lists; then the calls.
pub mod Lists
pub mod InForms
pub mod Asked
pub mod Poured
pub mod Outcomes
