pub mod OneAnswer
pub mod OneOrder
