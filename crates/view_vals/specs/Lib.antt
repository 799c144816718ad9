pub mod Views
pub mod Queries
pub mod Laws
