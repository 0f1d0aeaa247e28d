pub mod Leaders
pub mod Meanings
