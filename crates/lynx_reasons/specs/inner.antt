-- Definitions that no public clause cites: they serve the functions within.
pub mod Counts
pub mod Joinings
pub mod Lefts
pub mod Numbers
pub mod Searches
pub mod Sifts
pub mod Tellings
pub mod Untabled
