pub mod Numbers
pub mod Jobs
pub mod Words
pub mod Runs
