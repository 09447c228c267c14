-- The tables of a team, one after another.
pub mod Joined
pub mod Sharing
pub mod Held
