pub mod BoxRows
pub mod Reading
pub mod Cuts
pub mod Fills
