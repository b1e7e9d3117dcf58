pub mod Laws
pub mod Transitions
