mod Marks
pub mod Steps
