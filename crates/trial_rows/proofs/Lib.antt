pub mod MadeCode
pub mod Preparing
pub mod TurnStores
