mod SortingLemmas
mod IndexLemmas
mod PartsLemmas
mod RecordsLemmas
pub mod ListingLemmas
pub mod BoxesLemmas
pub mod SmallLemmas
