-- What the memo's functions promise, over the memo's own words.
pub mod Slots
pub mod Laws
pub mod Kept
