pub mod Copied
pub mod Pasted
pub mod View
pub mod Laws
