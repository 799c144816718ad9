pub mod Faults
pub mod Apart
pub mod Standing
pub mod Calls
pub mod Texts
pub mod Moving
pub mod Rounds
pub mod Sharing
