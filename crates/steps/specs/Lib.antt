-- What a step asks of the lent words, what it leaves, and what each kind can be refused with.
pub mod Orders
pub mod Refusals
pub mod Stepping
pub mod Tests
