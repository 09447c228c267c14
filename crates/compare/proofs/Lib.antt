pub mod Disagreement
-- Small comparisons, computed.
pub mod Examples
-- Its checks by their numbers, in order.
pub mod InOrder
-- Which answer is given when.
pub mod Laws
pub mod Promises
