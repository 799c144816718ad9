pub mod Lines
pub mod Reading
pub mod Answers
pub mod Gathering
pub mod Views
