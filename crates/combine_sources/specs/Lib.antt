-- What a reader must believe of the calls on two sets, and what their first steps ask and leave.
pub mod Rules
pub mod Steps
