pub mod Agreeing
pub mod Holding
pub mod Picking
pub mod Routing
pub mod Splitting
pub mod Writing
