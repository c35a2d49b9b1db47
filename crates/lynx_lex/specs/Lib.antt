pub mod Digits
pub mod Gives
pub mod Lines
pub mod Name
pub mod Word
