-- What a reader must believe of a comparison of two sets, and what its inner function answers.
pub mod Rules
