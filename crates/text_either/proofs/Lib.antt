-- The laws of the definitions: lines of either family, read; then written.
pub mod Reading
pub mod Written6
pub mod RoundTrip
pub mod Firsts
