-- What the parts of the program require and promise.
pub mod Parts
pub mod Left
