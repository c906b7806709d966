-- What a reader must believe of a pool: how it keeps a list, the state, the words that hold it, the rules of the calls that change no list and of those that do. Steps is what the
-- inner functions ask and leave.
pub mod Kept
pub mod States
pub mod Decode
pub mod Rules
pub mod Changes
pub mod Steps
