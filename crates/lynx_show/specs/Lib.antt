pub mod Listing
pub mod Upgraded
pub mod Reads
pub mod Finds
