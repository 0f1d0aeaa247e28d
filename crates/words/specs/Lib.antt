pub mod Words
pub mod Mixing
pub mod Draws
