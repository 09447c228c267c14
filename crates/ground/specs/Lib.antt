-- What every crate uses and that says nothing of images.
-- Tests and numbers.
pub mod Tests
pub mod Bits
pub mod Least
-- Lists.
pub mod Filters
pub mod Ascending
pub mod Ranges
pub mod Sums
pub mod Counts
pub mod Members
pub mod Totals
-- Signed numbers.
pub mod Signed
-- What code does: search, carry a number along, merge, write a buffer, refuse.
pub mod First
pub mod Folds
pub mod Merges
pub mod Buffers
pub mod Refusals
pub mod Lowest
pub mod Outcomes
-- A fixed number in a fixed order.
pub mod Steps
pub mod InOrder
-- What is true of it, with the proofs.
pub mod Laws
