pub mod Steady
pub mod Begins
pub mod Places
pub mod Steps
pub mod Opens
pub mod Tests
pub mod Ends
