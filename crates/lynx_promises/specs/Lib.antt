pub mod Stops
pub mod Requests
pub mod Promises
pub mod Growths
