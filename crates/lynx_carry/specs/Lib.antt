pub mod Naming
pub mod Writers
pub mod Counts
pub mod Histories
pub mod Carried
pub mod Faults
pub mod inner
