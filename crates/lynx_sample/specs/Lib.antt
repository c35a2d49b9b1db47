pub mod Samples
pub mod inner
