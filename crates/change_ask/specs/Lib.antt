-- What the contracts cite: the calls with a network, and what they find first.
pub mod Calls
pub mod Steps
