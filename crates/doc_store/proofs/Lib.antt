pub mod SlotLaws
pub mod Trees
pub mod Ids
pub mod Journals
pub mod Applied
pub mod Fullness
pub mod Checked
