pub mod Shapes
pub mod Order
pub mod Keys
pub mod Moves
pub mod Unions
