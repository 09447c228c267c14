-- The lines of the report, its text, and what the promise says.
pub mod Lines
pub mod Text
pub mod Promises
-- Bytes that cannot matter to it.
pub mod Ignored
-- Texts of reports, computed.
pub mod Examples
-- What is true of them.
pub mod Laws
