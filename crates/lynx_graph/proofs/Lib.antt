pub mod Decides
pub mod DecidesBlocks
pub mod Lists
pub mod Places
pub mod Conflicts
pub mod EdgesFrom
pub mod Joining
