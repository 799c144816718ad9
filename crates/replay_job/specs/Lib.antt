pub mod Texts
pub mod Taking
pub mod Replay
pub mod CaughtUp
pub mod Replies
pub mod Proceeding
pub mod Endings
