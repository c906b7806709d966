-- The entry of a member.
pub mod Entries
