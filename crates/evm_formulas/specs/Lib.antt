pub mod Stated
pub mod Operations
pub mod Combined
pub mod Changes
pub mod Steps
