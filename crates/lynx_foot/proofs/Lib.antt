pub mod Decides
pub mod ConflictLaws
