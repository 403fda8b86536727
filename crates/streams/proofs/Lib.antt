mod Fronts
pub mod Within
