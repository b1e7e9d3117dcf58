pub mod Operations
pub mod Listings
pub mod Walking
pub mod Stores
