pub mod Kinds
pub mod Feet
pub mod Reaches
pub mod Conflicts
pub mod Tests
