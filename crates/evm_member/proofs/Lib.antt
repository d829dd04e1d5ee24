pub mod Round
pub mod Axes
pub mod Steps
pub mod Answer
pub mod Between
