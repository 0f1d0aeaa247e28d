pub mod Tickets
pub mod Openings
pub mod Listings
pub mod Deals
