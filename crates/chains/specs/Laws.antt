-- The walks up and down a chain.
pub mod Climbs
pub mod Descents
pub mod Walked
