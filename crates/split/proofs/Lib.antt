pub mod Order
pub mod Cuts
pub mod Places
