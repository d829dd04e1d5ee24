pub mod Heights
pub mod Squares
pub mod Lines
pub mod Sections
pub mod Beside
pub mod Row
