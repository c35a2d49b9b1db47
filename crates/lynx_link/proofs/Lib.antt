pub mod Adding
pub mod SoFar
