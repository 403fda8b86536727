pub mod Apart
pub mod Gather
pub mod Pages
pub mod Slots
pub mod Whole
