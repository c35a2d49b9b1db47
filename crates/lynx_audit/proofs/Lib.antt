pub mod Openings
pub mod Lasts
pub mod Audited
pub mod Blames
