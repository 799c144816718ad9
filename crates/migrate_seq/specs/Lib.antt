pub mod Versions
pub mod Order
pub mod Plans
pub mod Builds
pub mod Shown
pub mod SequencesOf
pub mod Laws
