pub mod Demands
-- Its checks by their numbers, in order.
pub mod InOrder
-- Laws.
pub mod Laws
-- What the promises are worth.
pub mod Promises
-- What 20 says.
pub mod Zeros
