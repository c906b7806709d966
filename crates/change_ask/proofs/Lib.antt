-- Why: what a public-only set may have, a list in a set, and what the calls with a network find first.
pub mod Admitted
pub mod Listed
pub mod Asking
