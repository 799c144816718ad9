pub mod Inverses
pub mod Histories
pub mod Kept
pub mod Begun
pub mod Standing
