pub mod Chain
pub mod Keeper
pub mod Search
