-- Of the events: after each the rows are the exact reading of the cost table that is left.
pub mod Replay
pub mod Table
pub mod Anew
-- Of how the code takes them.
pub mod Sound
pub mod Events
pub mod Start
pub mod Outcome
