pub mod Tree
pub mod View
pub mod Admits
pub mod Builds
pub mod SchemaOf
