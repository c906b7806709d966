-- What a reader must believe of list and next; then a place as an argument, and what stands in a seat.
pub mod Calls
pub mod Places
pub mod Seated
