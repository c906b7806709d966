-- The laws of going through a set: one step, and the spots that are reached.
pub mod Onward
