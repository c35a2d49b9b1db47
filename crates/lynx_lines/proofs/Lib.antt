pub mod Parts
pub mod SpelledLemmas
pub mod EventLemmas
