pub mod Walks
pub mod Uses
pub mod Taking
pub mod Stating
pub mod Numbers
pub mod Plain
