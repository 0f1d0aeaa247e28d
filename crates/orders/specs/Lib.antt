pub mod Members
pub mod Orders
pub mod Claims
