pub mod Saved
pub mod Faults
pub mod Lines
pub mod Ids
pub mod Readings
pub mod Raised
pub mod Laws
pub mod Sorted
