pub mod Faults
pub mod Refills
pub mod Restored
pub mod Longest
pub mod Undone
pub mod Lines
