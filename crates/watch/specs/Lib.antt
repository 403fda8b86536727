-- Rule 8 of one board.
pub mod Watched
