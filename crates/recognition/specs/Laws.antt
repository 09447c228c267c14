-- Tests of all numbers below another, and as facts.
pub mod Below
-- Recognised at every place exactly where the four-point condition holds.
pub mod Recognition
pub mod Order
