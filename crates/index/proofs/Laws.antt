pub mod AtZero
pub mod Ends
pub mod Moved
pub mod Nearest
-- When the call is accepted.
pub mod Passed
-- What the answer says.
pub mod Value
