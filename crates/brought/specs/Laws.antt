-- The loops that choose the rows that can stay, the chains of their sides, and the values.
pub mod Turned
pub mod Stores
pub mod Choosing
pub mod BothWays
pub mod Sides
pub mod Answers
