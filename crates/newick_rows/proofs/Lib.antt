-- The pieces of a row's text.
pub mod Pieces
-- Laws.
pub mod Laws
