pub mod Answers
pub mod Controls
pub mod Headline
pub mod Lines
pub mod Loading
pub mod Parts
pub mod Statuses
