-- What each conversion answers and leaves.
pub mod Costs
pub mod Links
-- The checks by their numbers, in order.
pub mod InOrder
-- Accepted conversions.
pub mod Laws
-- Tables that were stored while two images could cost nothing.
pub mod Zeros
-- Examples that antt computes.
pub mod Examples
