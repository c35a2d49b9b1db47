pub mod Ranges
pub mod Shards
