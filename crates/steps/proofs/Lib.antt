pub mod Entries
pub mod Effects
pub mod Cleaned
pub mod Ways
