pub mod Placed
pub mod Worlds
pub mod Servers
pub mod Steps
pub mod Tables
pub mod Legal
pub mod Order
pub mod inner
