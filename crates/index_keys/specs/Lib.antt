pub mod Answers
pub mod Between
pub mod Digits
pub mod Keys
pub mod Order
pub mod Several
