pub mod ControlTexts
pub mod Cuts
pub mod Laws
pub mod Pieces
pub mod Steps
