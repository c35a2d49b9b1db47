-- Definitions that no public clause cites: they serve the functions within.
pub mod Running
