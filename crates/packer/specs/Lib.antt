-- What was put: stored in whole bytes, or gathered. And how a stored table starts.
pub mod Gathering
pub mod Start
-- What is true of it.
pub mod Laws
-- What its promise is worth, and an example.
pub mod Promises
