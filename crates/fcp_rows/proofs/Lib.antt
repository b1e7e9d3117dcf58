pub mod Digits
pub mod LongReports
