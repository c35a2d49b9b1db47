-- Definitions that no public clause cites: they serve the functions within.
pub mod BlockTests
pub mod Joining
pub mod Tests
