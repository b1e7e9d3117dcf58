pub mod Made
pub mod Prepared
pub mod Turns
pub mod TurnLaws
