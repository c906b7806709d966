-- Why: the list with the network or without it, a network in it or out of it, and the result of a call, counted, judged and written.
pub mod Lists
pub mod Edits
pub mod Weighed
