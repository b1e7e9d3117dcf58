pub mod ClosedTerms
pub mod ClosedItems
pub mod ProgramsOfTexts
pub mod RunsOfTexts
