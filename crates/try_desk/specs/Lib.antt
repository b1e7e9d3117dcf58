pub mod Held
pub mod Cuts
pub mod Desks
pub mod Constants
pub mod Opened
pub mod Keeping
