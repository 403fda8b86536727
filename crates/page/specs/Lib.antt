-- The page struct: what it holds, its words, and what the functions make of it.
pub mod Struct
pub mod Laws
