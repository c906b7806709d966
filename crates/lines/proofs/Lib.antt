-- The laws: the returns of the calls; the loop over a piece; a line of which only the first bytes are kept; then what the calls promise together: the
-- input whole, whatever its pieces, and the adds that its lines are; and the document's input.
pub mod Steps
pub mod Passing
pub mod Keeping
pub mod Cutting
pub mod Lists
pub mod Input
pub mod Adds
pub mod Document
