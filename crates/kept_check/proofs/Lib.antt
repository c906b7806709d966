-- The laws of the check: the tests at a node, and its turns.
pub mod Fitting
pub mod Stack
