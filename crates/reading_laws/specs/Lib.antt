pub mod PieceTerminals
pub mod Variables
pub mod Readable
pub mod Alike
pub mod TerminalOrder
pub mod CanonicalReading
