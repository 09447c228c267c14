-- What a reader must believe: document 02's definition.
pub mod Consensus
-- How the code gets there.
pub mod Meet
pub mod Merge
-- What is true of it.
pub mod Laws
