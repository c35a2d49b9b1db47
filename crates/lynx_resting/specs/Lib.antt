pub mod Mirrors
pub mod Resting
