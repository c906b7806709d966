-- What a reader must believe: what the calls do with the bytes that they get; the lines of an input and what each does are those of lines_take. Steps
-- is what the inner functions leave.
pub mod Reading
pub mod Steps
