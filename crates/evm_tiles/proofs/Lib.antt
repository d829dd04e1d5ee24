pub mod Parts
pub mod Trees
pub mod Contents
pub mod Showing
pub mod Thin
