-- What a call promises crosses unchanged.
pub mod Crossing
-- A call whose answer is the first refusal of its checks meets demand 1.
pub mod Refusals
-- No two answers cross as the same numbers.
pub mod Once
