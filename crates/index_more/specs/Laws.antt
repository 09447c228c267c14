-- The lists of both sides, and the least over them.
pub mod Sides
