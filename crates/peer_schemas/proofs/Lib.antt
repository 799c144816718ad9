pub mod ByIdLemmas
pub mod TypeLemmas
pub mod VersionLemmas
pub mod PlanLemmas
pub mod ClientLemmas
pub mod RoomLemmas
