-- Keys: what a descent writes for each entry that it finds, and the rows that are read from them.
pub mod Keys
pub mod Descent
pub mod Rows
