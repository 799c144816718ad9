pub mod GoingLemmas
pub mod StepLemmas
pub mod TurnLemmas
pub mod LineTextLemmas
pub mod NextLemmas
pub mod WorkingLemmas
