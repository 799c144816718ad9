pub mod Scopes
pub mod Sending
pub mod Sessions
pub mod Standing
