pub mod Begun
pub mod Slots
pub mod Tree
pub mod Journal
pub mod Kept
pub mod Checking
