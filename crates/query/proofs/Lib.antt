pub mod Descent
pub mod Rows
pub mod Lent
pub mod Left
pub mod Writing
pub mod Finding
