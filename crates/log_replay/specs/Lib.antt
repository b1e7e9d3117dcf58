pub mod Tables
pub mod Replays
pub mod Parts
pub mod Waits
