pub mod InTurn
-- How a reader moves, and where it stands after one table and after two.
pub mod Moves
pub mod OneTake
