-- What a listing is.
pub mod LastImage
pub mod Listing
-- What the promises are worth: what is printed, the order line, refusals in order, bytes that cannot matter; and examples, computed.
pub mod Promises
pub mod OrderLines
pub mod TwoListings
pub mod InOrder
pub mod Ignored
pub mod Examples
-- What is true of it.
pub mod Laws
