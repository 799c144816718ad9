pub mod Seen
pub mod Watches
pub mod Gots
pub mod Due
pub mod News
