pub mod Copies
pub mod Heads
pub mod Closed
pub mod Closing
pub mod Folders
pub mod Paths
pub mod Terms
