-- Signed numbers.
pub mod Signed
pub mod SignedLeast
