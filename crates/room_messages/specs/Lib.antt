pub mod Present
pub mod Results
pub mod Told
