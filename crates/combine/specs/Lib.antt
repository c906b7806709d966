-- What a reader must believe of the calls on two sets.
pub mod Rules
