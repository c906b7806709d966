-- What a reader must believe: lines of either family, read and written.
pub mod Either
pub mod First
