mod ApartLemmas
mod EndLemmas
mod GatherLemmas
mod HostingLemmas
mod WritingLemmas
