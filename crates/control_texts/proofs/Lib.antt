pub mod Completions
pub mod Cutting
pub mod Following
pub mod OneFault
pub mod Reached
