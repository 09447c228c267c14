-- What the writer of cost tables answers.
pub mod Writing
-- Its checks by their numbers, in order.
pub mod InOrder
-- What the promise is worth: reading undoes writing.
pub mod RoundTrips
-- Examples that antt computes.
pub mod Examples
