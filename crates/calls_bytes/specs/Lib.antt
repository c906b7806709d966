-- What a reader must believe of the bytes: numbers, the records of a call and of its answer, their tails.
pub mod Bytes
pub mod Records
pub mod Tails
