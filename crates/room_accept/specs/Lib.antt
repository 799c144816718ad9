pub mod Measures
pub mod Parts
pub mod Plans
pub mod Pushes
pub mod Sizes
pub mod Suiting
