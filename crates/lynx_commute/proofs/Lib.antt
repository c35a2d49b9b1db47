pub mod Changes
pub mod Writes
pub mod Commuting
pub mod Framing
