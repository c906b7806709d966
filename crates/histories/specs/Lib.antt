-- What a reader must believe of histories: the calls that change a set, the sequences of them, lines among them, the calls that read, a state in another form, sets merged by them, and ranges taken in by them.
pub mod Calls
pub mod Histories
pub mod Sequences
pub mod Readings
pub mod Forms
pub mod Merges
pub mod Imports
