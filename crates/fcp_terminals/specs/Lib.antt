pub mod Lexemes
pub mod MarkTerminals
pub mod Numbering
