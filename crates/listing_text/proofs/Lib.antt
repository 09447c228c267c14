pub mod Ignored
-- Laws.
pub mod Laws
