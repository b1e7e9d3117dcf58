pub mod Machines
pub mod Stores
pub mod Sides
pub mod Running
pub mod Goals
pub mod Deciding
pub mod Assigning
