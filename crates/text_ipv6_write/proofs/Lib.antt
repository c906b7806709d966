-- The laws of the definitions, from the bottom up: the groups of an address in two words; the longest run; groups joined by colons; the text of groups on each
-- path of the code; what RFC 5952 asks of digits and of a text; the length of a line; what a reader of the text finds; and the RFC's examples.
pub mod Words
pub mod Longest
pub mod Colons
pub mod Texts
pub mod Plain
pub mod Recommended
pub mod Lines
pub mod Examples
