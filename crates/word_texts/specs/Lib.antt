pub mod Leaves
pub mod Turns
pub mod Shown
