-- Laws that fall with a wrong definition of what they speak of.
pub mod Boxes
pub mod Memo
