pub mod Seen
pub mod Tree
pub mod Plain
pub mod Tells
pub mod Kept
pub mod Lists
pub mod Calls
