pub mod Failures
pub mod Faults
pub mod Desks
pub mod Places
pub mod Lookups
pub mod Services
pub mod Talks
