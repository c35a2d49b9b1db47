pub mod Copies
pub mod Fronts
pub mod Finding
pub mod OwedFront
