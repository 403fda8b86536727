-- The fresh store's words, what a query's answer says, where a board's rows stand, and a run under way.
pub mod Fresh
pub mod Answers
pub mod Rows
pub mod Running
