-- Why: what is left of the entries settles whether the list of a file is clear.
pub mod Clearing
