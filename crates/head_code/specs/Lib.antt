pub mod Emitting
pub mod TermCode
pub mod HeadCode
pub mod OpenCode
pub mod SourceTerms
