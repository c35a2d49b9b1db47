pub mod Extends
pub mod Places
