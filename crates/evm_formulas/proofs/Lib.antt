pub mod Figures
pub mod Corners
pub mod ShapeValues
pub mod Stated
pub mod StepLaws
