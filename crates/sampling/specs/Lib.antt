pub mod Floyd
pub mod Samples
pub mod Shuffles
