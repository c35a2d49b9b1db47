-- Definitions that no public clause cites: they serve the functions within.
pub mod Backward
pub mod Marks
pub mod Parts
pub mod Searches
pub mod Tracing
