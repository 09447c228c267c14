-- Accepted conversions.
pub mod Costs
pub mod Links
