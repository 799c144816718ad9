pub mod RefusalLemmas
pub mod ChannelLemmas
pub mod StepLemmas
pub mod TextLemmas
pub mod SettledLemmas
pub mod MoveLemmas
