-- What the contracts cite: the calls with a network, and the one that simplifies.
pub mod Calls
pub mod Simplified
