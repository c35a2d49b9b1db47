mod Apart
pub mod CrashLemmas
pub mod ActLemmas
pub mod Kept
pub mod Batches
pub mod RowsRead
pub mod Told
pub mod Upgraded
pub mod Extensions
