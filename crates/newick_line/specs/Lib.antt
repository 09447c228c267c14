-- The line that the program prints, and what its promise says.
pub mod Line
pub mod Promises
-- What is true of it.
pub mod Laws
