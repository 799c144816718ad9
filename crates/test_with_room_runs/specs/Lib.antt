pub mod Casts
pub mod Talks
