pub mod Closing
pub mod Hosted
pub mod Lines
pub mod Opened
pub mod Outcomes
