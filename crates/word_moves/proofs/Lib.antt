pub mod Rising
pub mod Processes
pub mod Finding
pub mod Woken
pub mod Moves
pub mod CommitFits
pub mod HangFits
pub mod SafeMoves
