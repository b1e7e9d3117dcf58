pub mod Laws
pub mod PlaceBindings
