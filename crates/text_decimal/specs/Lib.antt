-- What a reader must believe: bytes for as long as a test holds, numbers in decimal digits. Places says what the functions do.
pub mod Spans
pub mod Decimal
pub mod Places
