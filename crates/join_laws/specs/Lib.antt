pub mod Sessions
pub mod Ways
pub mod Serving
pub mod Texts
pub mod Linked
pub mod Scripted
