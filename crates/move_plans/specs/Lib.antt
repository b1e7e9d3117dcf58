pub mod Plans
pub mod Movers
pub mod Sizes
pub mod Places
pub mod Rooms
pub mod Stages
