-- Definitions that no public clause cites: they serve the functions within.
pub mod Begins
pub mod Books
pub mod Hops
pub mod Keeping
pub mod ReadingBack
pub mod Repeating
pub mod Sorting
pub mod Trying
