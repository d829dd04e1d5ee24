pub mod Beyond
pub mod CutLists
pub mod Crossed
