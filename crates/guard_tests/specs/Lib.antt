pub mod Numbers
pub mod Evaluation
pub mod Equality
pub mod Forms
pub mod Guards
pub mod Opened
