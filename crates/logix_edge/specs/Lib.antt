pub mod Causes
pub mod LastFailed
pub mod MemoryShelves
pub mod MemorySinks
pub mod Shelves
pub mod Sinks
pub mod Streams
pub mod System
