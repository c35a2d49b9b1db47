-- Definitions that no public clause cites: they serve the functions within.
pub mod Absent
pub mod Serving
pub mod Opening
pub mod Closing
pub mod Settling
pub mod Submitting
pub mod Together
