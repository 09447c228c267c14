-- What the contract of `events` cites.
pub mod Checks
