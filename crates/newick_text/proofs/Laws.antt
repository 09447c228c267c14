pub mod Accepted
-- Whatever is alive can be completed.
pub mod Completes
-- Every text of the profile is read to its end.
pub mod Digits
-- What was read is fine as far as it goes.
pub mod Fine
pub mod Live
-- The place of the first impossible byte.
pub mod Place
pub mod ReadLinks
-- Reading undoes writing, and writing undoes reading.
pub mod Reading
pub mod Reads
pub mod Steps
