-- The laws of the definitions, from the bottom up: the layout of an address, the paths of the code; then what the calls promise together: quads and
-- joined pieces, the grammar, the answers; and examples.
pub mod Laying
pub mod Reading
pub mod Dotted
pub mod Joined
pub mod Grammar
pub mod Answers
pub mod Examples
