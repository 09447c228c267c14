-- Its checks by their numbers.
pub mod InOrder
-- What the promise says of the code's own answer.
pub mod Promises
