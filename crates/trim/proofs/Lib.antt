-- Laws that the proofs of the functions cite.
pub mod Keeping
pub mod Ways
pub mod Thin
pub mod Back
pub mod Whole
