-- What a reader must believe: the groups of an address, up to where no more follow. Places says what the functions do.
pub mod Runs
pub mod Places
