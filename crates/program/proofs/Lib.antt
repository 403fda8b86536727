pub mod Boards
pub mod Running
pub mod Starting
pub mod FirstLine
