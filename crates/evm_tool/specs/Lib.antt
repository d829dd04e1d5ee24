pub mod EndedLines
pub mod Streams
pub mod Top
pub mod Served
pub mod Script
pub mod Generated
