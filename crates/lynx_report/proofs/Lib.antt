pub mod Asked
pub mod Charted
pub mod Lasts
pub mod Owing
pub mod Printed
pub mod Reaching
pub mod RunLemmas
pub mod Stops
