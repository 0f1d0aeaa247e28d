pub mod Lines
pub mod Rounds
pub mod Tallies
pub mod Words
