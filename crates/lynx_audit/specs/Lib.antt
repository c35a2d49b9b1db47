pub mod Audits
pub mod Sizes
pub mod Latest
pub mod Owing
