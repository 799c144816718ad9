pub mod View
pub mod Records
pub mod Sorting
pub mod Trees
pub mod Boxes
pub mod Views
pub mod Queries
pub mod Index
