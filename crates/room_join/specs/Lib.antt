pub mod Lines
pub mod Texts
pub mod Joiners
pub mod Standing
pub mod Hearing
