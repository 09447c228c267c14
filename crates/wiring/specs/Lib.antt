-- What the contracts of `wiring` cite: refusal 7, one test of it, and the scan.
pub mod Check
pub mod Once
pub mod Scan
-- Its checks by their numbers, in order.
pub mod InOrder
-- What refusal 7 is worth.
pub mod Promises
-- What is true of it.
pub mod Laws
