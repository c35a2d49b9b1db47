pub mod Ranges
pub mod Written
