pub mod Answering
pub mod AskedLimits
pub mod KindsOfAnswers
pub mod Loaded
pub mod OneLoading
pub mod Pieces
pub mod Reported
