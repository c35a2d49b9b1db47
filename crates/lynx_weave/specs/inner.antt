-- Definitions that no public clause cites: they serve the functions within.
pub mod Judging
pub mod Loading
pub mod Orders
pub mod Rebuilt
pub mod Taken
