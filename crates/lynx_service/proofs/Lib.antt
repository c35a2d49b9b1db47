mod Begun
mod Ends
mod Failed
mod Followed
mod Opened
mod Talked
