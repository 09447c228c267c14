-- Tests and numbers.
pub mod Tests
pub mod Bits
pub mod Ones
pub mod Shifts
pub mod Least
-- Lists.
pub mod Filters
pub mod Maps
pub mod Ascending
pub mod Ranges
pub mod Sums
pub mod Counts
pub mod Members
pub mod Totals
-- What code does: search, carry a number along, merge, write a buffer, refuse.
pub mod First
pub mod Folds
pub mod Merges
pub mod Buffers
pub mod Refusals
pub mod Lowest
pub mod Outcomes
pub mod Steps
pub mod InOrder
