-- Nothing is lost: each kind of answer is read back from its numbers.
pub mod Kept
pub mod KeptStored
pub mod KeptReplays
pub mod KeptReports
