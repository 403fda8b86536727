-- A board's own words, and where a row stands among its rows.
pub mod Rows
pub mod Laws
