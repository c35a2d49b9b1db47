-- Definitions that no public clause cites: they serve the functions within.
pub mod Begun
pub mod Certificates
pub mod ChainsAt
pub mod Links
pub mod Listing
pub mod Picks
