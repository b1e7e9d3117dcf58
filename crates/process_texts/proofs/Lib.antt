pub mod Cells
pub mod ArgumentTexts
pub mod ExpressionTexts
pub mod Work
pub mod GoalTexts
pub mod LineTexts
pub mod ManyLines
pub mod WaitingSets
