pub mod Laws
pub mod LawfulBindings
