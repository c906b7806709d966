-- What a reader must believe: the lines of an input and what each does to the pool. Taking is what the functions leave.
pub mod Lines
pub mod Taking
