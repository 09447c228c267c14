-- Examples that antt computes.
pub mod Examples
-- Laws.
pub mod Laws
