-- Cleaning the tree: what its functions ask of a store's words, and what they leave.
pub mod Trimming
