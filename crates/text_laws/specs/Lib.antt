pub mod Spellings
pub mod Fitting
pub mod TermSpellings
pub mod SourceSpellings
pub mod Writable
pub mod Readings
pub mod TextLaws
