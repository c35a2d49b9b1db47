mod Histories
mod InputLemmas
mod Judged
mod Mended
mod Placing
mod Restored
mod Told
