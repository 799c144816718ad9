pub mod Steps
pub mod Texts
pub mod Turns
pub mod Playing
pub mod Endings
pub mod Turning
pub mod Working
