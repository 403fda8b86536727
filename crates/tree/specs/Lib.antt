-- The tree: what its functions ask of a store's words, what they leave, and the laws of both.
pub mod Putting
pub mod Laws
