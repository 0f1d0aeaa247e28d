pub mod Columns
pub mod Renames
pub mod Orbits
pub mod Bridge
pub mod Standing
