-- What the contracts of `tables` cite: the checks, and a table of the right size.
pub mod Pairs
pub mod Checks
pub mod Formed
-- The entries of a table that was checked.
pub mod Entries
-- What 20 says.
pub mod Zeros
-- Its checks by their numbers, in order.
pub mod InOrder
-- Which of two faults is named, computed.
pub mod Examples
