pub mod Front
pub mod Writes
