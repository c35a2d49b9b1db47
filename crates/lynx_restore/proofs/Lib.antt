pub mod Refillings
pub mod Storings
pub mod Summings
pub mod Longests
