pub mod Chain
pub mod ServerList
