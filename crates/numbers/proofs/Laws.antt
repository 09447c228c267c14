-- Nothing is lost: each kind of answer is read back from its numbers.
pub mod Kept
