-- What the contracts cite: what the steps of a combination ask and leave.
pub mod Steps
