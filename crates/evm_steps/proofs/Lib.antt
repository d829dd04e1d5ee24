pub mod CutCounts
pub mod Climb
