pub mod Following
pub mod Fronts
mod inner
