pub mod Telling
pub mod Watches
