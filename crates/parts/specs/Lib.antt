-- Stores whose parts are in order, where a board's words stand, and what writing one part leaves.
pub mod InOrder
pub mod Laws
pub mod BoardAt
pub mod Promises
pub mod MemoAt
