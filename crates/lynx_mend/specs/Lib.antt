pub mod Costs
pub mod Mended
pub mod inner
