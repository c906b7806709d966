-- The laws of pouring in the second form: sizes, what is found and written below a path, the halves put together, and whole tries in place.
pub mod Sizes
pub mod Found
pub mod Passes
pub mod Fills
pub mod Pouring
pub mod Poured
