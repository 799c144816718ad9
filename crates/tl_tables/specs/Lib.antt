pub mod Fields
pub mod View
pub mod Parts
pub mod Shapes
pub mod Types
pub mod Trees
pub mod Migrations
pub mod Tables
