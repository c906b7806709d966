-- The laws of the definitions, from the bottom up: leading bytes, numbers, places, the loop that reads a number; the digits and stores that write one.
pub mod Spans
pub mod Numbers
pub mod Places
pub mod Loop
pub mod Writing
