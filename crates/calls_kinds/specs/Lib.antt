-- What a reader must believe of the kinds of calls, and of where a run stands.
pub mod Kinds
pub mod Places
