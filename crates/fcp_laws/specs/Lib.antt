pub mod Endings
pub mod Laws
pub mod Schedules
pub mod WaitingProcesses
