-- Examples that antt computes.
pub mod Examples
-- Its checks by their numbers, in order.
pub mod InOrder
-- Laws.
pub mod Laws
