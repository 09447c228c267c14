-- The text of a refusal.
pub mod Text
-- Its check by its number.
pub mod InOrder
-- What the promise is worth, and examples that antt computes.
pub mod Promises
pub mod Examples
-- What is true of it.
pub mod Laws
