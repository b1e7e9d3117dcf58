pub mod Counts
pub mod CountLaws
pub mod Spells
pub mod Workers
