pub mod Sets
pub mod Ways
pub mod Claims
pub mod Answers
