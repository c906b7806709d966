-- The laws of emission in the second form: answers, and one step of an operation.
pub mod Answered
pub mod Steps
