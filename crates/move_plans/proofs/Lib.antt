pub mod Rereading
pub mod Reading
pub mod Pieces
pub mod CommitCells
pub mod Large
pub mod Laying
pub mod Planning
