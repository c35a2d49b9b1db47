pub mod Faults
pub mod Desks
pub mod Talks
pub mod Exits
pub mod inner
