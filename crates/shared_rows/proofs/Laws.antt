pub mod Fold
-- The consensus: who its trees are, and one tree more at a time.
pub mod Members
