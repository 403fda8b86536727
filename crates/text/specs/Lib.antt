-- The program's text: how its input is read, how its output is written, and what it prints for any input.
pub mod Laid
pub mod Reading
pub mod Laws
pub mod Promised
pub mod Cutting
pub mod Printing
pub mod Decimals
pub mod Program
pub mod Examples
