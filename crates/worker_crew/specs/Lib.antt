pub mod Tasks
pub mod Reached
pub mod Moved
