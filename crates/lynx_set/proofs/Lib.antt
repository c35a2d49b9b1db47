pub mod Alike
pub mod Literals
pub mod Same
pub mod Sets
pub mod Upgraded
