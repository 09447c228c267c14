-- The next table, as the reader gives it and as the loop takes it.
pub mod Read
pub mod Next
pub mod Run
pub mod Onward
pub mod Call
-- What the promise is worth.
pub mod Follows
pub mod Reported
