-- What the contracts of `numbers` cite: the head of an answer, and the numbers of each kind.
pub mod Heads
pub mod Numbers
pub mod Levels
pub mod Stored
pub mod Replays
pub mod Reports
-- Nothing is lost.
pub mod Kept
pub mod Laws
