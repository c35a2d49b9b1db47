pub mod Once
pub mod OtherEnds
pub mod ByEdges
pub mod Lists
pub mod Late
