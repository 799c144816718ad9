pub mod Calls
pub mod Standing
pub mod Lending
pub mod Viewing
