pub mod Laying
pub mod Openings
pub mod FirstFit
pub mod Looking
pub mod Writing
pub mod Hangs
pub mod Plans
