pub mod Reading
pub mod Scanning
pub mod Wholes
pub mod Writing
