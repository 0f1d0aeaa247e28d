pub mod Scripts
pub mod Making
pub mod States
