pub mod Maps
pub mod Places
pub mod Filters
pub mod Slots
pub mod Staging
pub mod CellOrder
pub mod Writes
