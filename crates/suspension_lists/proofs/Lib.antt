mod CellCases
mod Gathering
mod Hanging
pub mod Keeping
mod Knowing
mod Lists
mod Sorting
mod Standing
mod Waking
mod Walking
