-- Rows, and what two trees share.
pub mod Rows
pub mod Meet
-- The merge of two.
pub mod Merge
pub mod Turns
pub mod Ahead
