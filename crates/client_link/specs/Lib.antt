pub mod Hearing
pub mod Sayings
pub mod Sending
pub mod Waiting
