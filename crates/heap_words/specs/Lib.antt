pub mod Cells
pub mod Refers
pub mod WordsLaws
pub mod Trails
pub mod WordTables
pub mod Heaps
pub mod HeapLaws
