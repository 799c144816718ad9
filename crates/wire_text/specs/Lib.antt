pub mod Cutting
pub mod Feeding
pub mod Gathering
pub mod Streams
