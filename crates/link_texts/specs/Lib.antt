pub mod Faults
pub mod Hearing
pub mod Joins
pub mod Sending
