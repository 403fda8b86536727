-- What the passes over held entries and memo compute, and that together they decide rules 4 to 7.
pub mod Passes
pub mod Given
pub mod Apart
pub mod State
pub mod Keys
pub mod Counters
pub mod Decided
