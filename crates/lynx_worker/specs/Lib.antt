pub mod Sending
pub mod Telling
pub mod Routes
pub mod Unheard
pub mod Taking
