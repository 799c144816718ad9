pub mod QuietLemmas
pub mod TellingLemmas
pub mod StoreLemmas
pub mod KeepingLemmas
pub mod EventLemmas
pub mod TellLemmas
pub mod LeavingLemmas
pub mod ConsequenceLemmas
