pub mod Cells
pub mod Entries
pub mod Sleepers
pub mod Waking
pub mod Hangs
