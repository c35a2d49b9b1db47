pub mod Lists
pub mod Runs
pub mod Precedence
pub mod Explanations
pub mod Touchings
pub mod Explained
pub mod inner
