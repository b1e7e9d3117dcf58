pub mod Settling
pub mod Sizes
pub mod Values
pub mod Pairs
pub mod Guards
pub mod Unifications
pub mod NamedPlaces
pub mod AllDecide
