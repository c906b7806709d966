-- The laws of the definitions, from the bottom up: groups and the loop that reads one, pieces, runs turn by turn.
pub mod Groups
pub mod Loop
pub mod Found
pub mod Turns
