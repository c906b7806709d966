-- One node of the second form on the way to the ranges.
pub mod Taking
