pub mod Faces
pub mod Counts
