pub mod LeavesOfTerms
pub mod Given
pub mod Steps
pub mod Falling
pub mod TurnsOfTerms
pub mod Fronts
pub mod WritesTerms
