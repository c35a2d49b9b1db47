pub mod Alike
pub mod OwnResults
