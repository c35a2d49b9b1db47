pub mod Rests
pub mod Drawn
pub mod Linked
pub mod Filled
