pub mod Safe
pub mod Stored
pub mod Puts
pub mod Loads
