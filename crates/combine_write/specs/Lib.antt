-- What the contracts cite: what counting and writing a result ask and leave.
pub mod Steps
