-- What a plan makes of the whole; the way down and back; what that is of lists.
pub mod Results
pub mod Whole
pub mod Lists
