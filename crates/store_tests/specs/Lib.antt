pub mod Purses
pub mod PurseLaws
pub mod Transfers
pub mod Workers
pub mod Notes
pub mod NoteLaws
