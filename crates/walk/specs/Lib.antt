-- The walk from the root over the pages, with one flag a page, and what it decides.
pub mod Walk
pub mod Laws
pub mod Decides
