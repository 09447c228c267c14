-- Small differences, computed.
pub mod Examples
-- Laws.
pub mod Laws
