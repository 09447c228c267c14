-- What the batch writer answers and writes.
pub mod Batch
pub mod Tables
pub mod ReadBack
-- Its checks by their numbers, in order.
pub mod InOrder
-- What is true of it.
pub mod Laws
pub mod Examples
