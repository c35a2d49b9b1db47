pub mod Numbered
pub mod Wholes
pub mod Takes
pub mod Triples
