pub mod NarrowGoals
pub mod GoalsOfTexts
