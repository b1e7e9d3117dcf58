pub mod Lists
pub mod Persisting
pub mod Leading
pub mod OneTerm
pub mod Pieces
