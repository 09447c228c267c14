-- What is true of the checks.
pub mod Passed
