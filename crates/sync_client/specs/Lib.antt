pub mod Numbers
pub mod Faults
pub mod Calls
pub mod Presences
pub mod Standing
pub mod Lending
