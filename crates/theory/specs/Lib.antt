-- What a reader must believe: document 01's definitions, a short file to a topic, in its order.
pub mod Tables
pub mod Checks
pub mod FourPoint
pub mod FarSides
pub mod LinkTables
pub mod Routes
pub mod Index
pub mod Choices
pub mod Readings
pub mod Order
pub mod OrderRules
pub mod Comparison
-- How the code gets there: one image more at a time.
pub mod OneMore
-- What a call leaves in the two lent slices of a link table.
pub mod Outcomes
-- What is true of them: the laws with their proofs, and on one page the theorems that answer the demands.
pub mod Laws
pub mod Demands
-- And what is left of those of the order where a table is a little off.
pub mod MeasuredRing
