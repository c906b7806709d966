-- What a reader must believe of the lookups: the rule of each call.
pub mod Rules
