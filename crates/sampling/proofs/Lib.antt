pub mod Inserting
pub mod Sampling
pub mod Turns
pub mod Exchanging
