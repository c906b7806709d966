-- The inner networks, and what it is to keep clear of them. Parts is what the inner functions ask and leave.
pub mod Inner
pub mod Parts
