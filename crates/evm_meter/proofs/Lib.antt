pub mod Readings
pub mod Beside
