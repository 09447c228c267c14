-- A path cut, and its rows without cost left out.
pub mod Cutting
-- The code.
pub mod Seats
pub mod Keeping
