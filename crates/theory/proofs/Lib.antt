pub mod Demands
-- Laws.
pub mod Laws
-- And what is left of those of the order where a table is a little off.
pub mod MeasuredRing
