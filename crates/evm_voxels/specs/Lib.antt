pub mod Numbers
pub mod Parity
pub mod Marks
pub mod Shots
pub mod Grids
pub mod Blocks
pub mod Outcomes
pub mod Streams
