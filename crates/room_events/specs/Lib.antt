pub mod Events
pub mod Legal
pub mod Told
pub mod Following
