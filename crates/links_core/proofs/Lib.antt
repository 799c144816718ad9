pub mod Members
mod ThreadLemmas
mod WriteLemmas
mod ChangeLemmas
