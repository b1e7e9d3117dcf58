pub mod Encodings
pub mod Keeps
pub mod WordTables
pub mod QuietHeaps
