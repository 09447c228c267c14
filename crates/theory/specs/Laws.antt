-- Divisions and the index.
pub mod Nested
pub mod FarSides
pub mod OwnParts
-- Path costs.
pub mod JoinedRows
pub mod Positions
-- Only one, how many rows, how far off.
pub mod Among
-- The order around the tree.
pub mod Next
pub mod Walk
pub mod NextLeft
-- Link tables that are climbed and compared.
pub mod Contained
pub mod Comparison
-- Cost tables under a higher limit.
pub mod Limits
-- Checks and outcomes that several calls share.
pub mod Checks
pub mod InOrder
pub mod Outcomes
