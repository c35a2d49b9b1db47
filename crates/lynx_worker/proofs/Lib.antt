pub mod Sendings
pub mod Tellings
pub mod RouteLemmas
pub mod Advancing
pub mod CatchingUp
pub mod Takings
pub mod Unheards
