pub mod Found
mod Numbers
