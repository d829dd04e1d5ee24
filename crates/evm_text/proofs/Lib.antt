pub mod Digits
pub mod LineCuts
pub mod WordCuts
pub mod Spaced
pub mod Decimals
