-- The laws of the definitions, from the bottom up: what is read and written on each path of the code; numbers by their digits, and the RFC's rule for
-- them; then what the calls promise together: the grammar, the round trip, one answer for each call; what became of the lines of the earlier rule; and
-- examples.
pub mod Reading
pub mod Writing
pub mod Digits
pub mod DecOctet
pub mod Answers
pub mod Grammar
pub mod RoundTrip
pub mod Before
pub mod Examples
