pub mod Answers
pub mod Checks
pub mod Deliveries
pub mod Lawful
pub mod Messages
pub mod Tables
pub mod Turns
pub mod Visits
