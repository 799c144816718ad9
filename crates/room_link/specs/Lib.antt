pub mod Exchange
pub mod Held
pub mod MemoryAccept
pub mod MemoryLink
pub mod Script
pub mod Standard
pub mod Stops
pub mod Worker
