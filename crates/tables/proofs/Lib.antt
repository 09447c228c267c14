-- Which of two faults is named, computed.
pub mod Examples
-- Its checks by their numbers, in order.
pub mod InOrder
-- Laws.
pub mod Laws
-- What 20 says.
pub mod Zeros
