pub mod PlaceLemmas
pub mod EventLemmas
pub mod FitLemmas
pub mod StepLemmas
pub mod HeldLemmas
pub mod TurnLemmas
pub mod CloseLemmas
mod CrossingValueLemmas
mod CrossingMessageLemmas
mod CrossingRoomLemmas
pub mod CrossingLemmas
