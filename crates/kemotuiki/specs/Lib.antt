-- What the contracts of `kemotuiki` cite: an outcome with its answer in numbers.
pub mod Crossing
-- Demand 1 of one call, and of every call.
pub mod Refusals
pub mod Demand1Levels
pub mod Demand1Stored
pub mod Demand1Newick
pub mod Demand1Leaving
pub mod Demand1Report
-- What the readings, the consensus and the replay leave is taken by the calls over link tables as it stands.
pub mod Onward
-- The exact reading of a table whose levels were read.
pub mod BothReadings
-- What is true of it.
pub mod Laws
