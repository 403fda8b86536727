pub mod Sorted
pub mod Laws
