pub mod Printed
pub mod Full
pub mod Scripts
pub mod Written
pub mod inner
