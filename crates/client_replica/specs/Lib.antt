pub mod Parts
pub mod Works
pub mod Stashes
pub mod NewBases
pub mod Owns
pub mod Standing
pub mod Lending
