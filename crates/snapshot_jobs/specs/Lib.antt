pub mod Seeking
pub mod Saving
pub mod Restoring
pub mod Beginning
pub mod Endings
pub mod Ending
pub mod Restored
