-- What the promises are worth.
pub mod Accepted
pub mod Behind
pub mod Chain
pub mod Parts
pub mod Refused
