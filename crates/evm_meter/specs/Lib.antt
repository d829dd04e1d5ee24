pub mod Meters
pub mod Fakes
pub mod Beside
