pub mod CommitsOnce
pub mod LastGoals
pub mod LiveGoals
pub mod NextEvents
pub mod OneEntry
pub mod OrderedEvents
pub mod Tries
pub mod WholeRuns
