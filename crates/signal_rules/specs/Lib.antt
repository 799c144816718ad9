pub mod Meaning
pub mod Values
