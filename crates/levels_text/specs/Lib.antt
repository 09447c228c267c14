-- What a listing of levels is.
pub mod Lines
pub mod Listing
-- What the promise is worth: what is printed, the images of a line, refusals in order, bytes that cannot matter; and examples, computed.
pub mod Promises
pub mod Answered
pub mod Images
pub mod InOrder
pub mod Ignored
pub mod Examples
-- What is true of it.
pub mod Laws
