pub mod Changes
pub mod Shapes
pub mod Hulls
pub mod Steps
