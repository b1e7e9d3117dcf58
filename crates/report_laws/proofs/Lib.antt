pub mod AddedLines
pub mod MoreEvents
pub mod WrittenReports
