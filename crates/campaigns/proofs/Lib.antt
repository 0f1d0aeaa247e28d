pub mod Fronts
pub mod SetCounts
pub mod Steps
pub mod Different
pub mod Choosing
pub mod Mixing
pub mod Dealing
