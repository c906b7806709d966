-- The laws of hexadecimal digits: which bytes they are and what they are worth, what is written for a number, and that this reads as the number.
pub mod Digits
pub mod Written
