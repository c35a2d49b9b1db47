-- What no public clause names.
pub mod Reading
