pub mod Rows
pub mod OnePage
pub mod Below
pub mod Root
