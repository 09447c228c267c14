pub mod Checks
pub mod Unnamed
