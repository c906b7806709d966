-- What one line does to the pool, by how it is read.
pub mod Taking
