pub mod Abroad
pub mod Blocks
pub mod inner
