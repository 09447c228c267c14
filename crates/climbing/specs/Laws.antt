-- How the code meets the answers.
pub mod PathSums
pub mod UpperRows
pub mod Climbs
