-- One call, the histories, two histories side by side, what the calls that read answer after them, public-only sets, indexed ones, the two forms side by side, merging in every order, ranges out and in again, and lines of text as calls of a history.
pub mod Step
pub mod Histories
pub mod TwoHistories
pub mod Readings
pub mod SameReadings
pub mod TwoReadings
pub mod Queries
pub mod Public
pub mod Indexed
pub mod Forms
pub mod FormReadings
pub mod FormLines
pub mod InnerTexts
pub mod MergeOrder
pub mod RoundTrip
pub mod Contracts
pub mod Lines
