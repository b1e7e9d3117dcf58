pub mod FirstFaults
pub mod OneFirst
pub mod HiddenCalls
pub mod FirstPlaces
pub mod Numbered
