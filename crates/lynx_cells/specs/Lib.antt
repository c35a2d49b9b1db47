pub mod Database
pub mod Triples
pub mod Contents
pub mod Ranges
pub mod inner
