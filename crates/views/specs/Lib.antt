pub mod Groups
pub mod Memories
pub mod Routes
pub mod Splits
