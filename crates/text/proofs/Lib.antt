pub mod Fields
pub mod Pieces
pub mod Lines
pub mod ManyLines
pub mod Puts
pub mod Tables
