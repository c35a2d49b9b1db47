pub mod AskedLaws
pub mod Cutting
pub mod Fronts
pub mod Recorded
pub mod Shown
