-- Laws that the proofs of the functions cite.
pub mod Lent
pub mod Words
pub mod Places
pub mod Moves
pub mod Answers
pub mod Inspection
