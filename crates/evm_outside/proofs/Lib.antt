pub mod FilesByName
