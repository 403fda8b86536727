pub mod Words
pub mod Place
pub mod Upkeep
