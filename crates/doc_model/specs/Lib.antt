pub mod Documents
pub mod Inverses
pub mod Merging
pub mod Marks
pub mod Restoring
