pub mod Condition
pub mod Facts
-- The order as the code reads it.
pub mod Seats
