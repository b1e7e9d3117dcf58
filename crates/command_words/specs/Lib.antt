pub mod Commands
pub mod Laws
pub mod Orders
pub mod Readings
