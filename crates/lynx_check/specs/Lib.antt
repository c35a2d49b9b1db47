pub mod Reasons
pub mod Verdicts
pub mod inner
