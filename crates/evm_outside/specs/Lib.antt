pub mod Causes
pub mod Fakes
pub mod Shelves
pub mod Tables
pub mod Cabinets
pub mod Adapters
