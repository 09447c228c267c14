-- Laws.
pub mod Laws
