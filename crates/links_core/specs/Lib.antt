pub mod Lists
pub mod Writes
pub mod Threads
