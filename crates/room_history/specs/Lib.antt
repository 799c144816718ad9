pub mod Checks
pub mod Clocks
pub mod Entries
pub mod Keeps
pub mod Marks
pub mod Loads
pub mod Begins
pub mod Saving
