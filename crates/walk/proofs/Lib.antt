pub mod Kept
pub mod Pages
pub mod Steps
