pub mod Closed
pub mod Sound
pub mod EntryWrites
pub mod Laws
