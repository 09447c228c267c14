-- What the writer of link tables answers.
pub mod Writing
-- Its checks by their numbers, in order.
pub mod InOrder
-- What the promise is worth: reading undoes writing.
pub mod RoundTrips
-- What is true of it.
pub mod Laws
-- Examples that antt computes.
pub mod Examples
