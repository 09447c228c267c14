pub mod Examples
-- Laws.
pub mod Laws
