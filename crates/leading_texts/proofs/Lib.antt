pub mod Steady
pub mod Texts
pub mod Goals
