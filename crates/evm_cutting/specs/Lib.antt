pub mod Cuts
pub mod Levels
pub mod Seams
pub mod Splits
pub mod Booleans
pub mod Changes
pub mod Hulls
