pub mod Sorting
pub mod Lexical
