-- The laws of writing a node: its words as stores.
pub mod Stores
