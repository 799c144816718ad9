pub mod Edges
pub mod Wired
pub mod Cells
pub mod Marks
pub mod Kept
pub mod Writes
pub mod Seen
pub mod Whole
