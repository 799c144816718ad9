pub mod Asking
pub mod Refreshing
