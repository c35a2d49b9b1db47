pub mod Pieces
pub mod Parts
pub mod Ranges
pub mod Reading
pub mod inner
