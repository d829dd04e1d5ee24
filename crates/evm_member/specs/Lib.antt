pub mod Levels
pub mod Place
