pub mod Steps
pub mod Once
pub mod Stated
pub mod Within
pub mod Unique
pub mod Numbers
pub mod SlabBoxes
