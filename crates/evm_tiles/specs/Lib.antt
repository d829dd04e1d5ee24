pub mod Sides
pub mod Splits
pub mod Trees
pub mod Shown
