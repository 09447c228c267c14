-- The laws, from one number's bits up to forms in a buffer.
pub mod Numbers
pub mod Parts
pub mod Bytes
pub mod Words
pub mod Turns
pub mod Packed
pub mod Written
pub mod Forms
pub mod OneWidth
pub mod Places
pub mod Listed
-- How the two forms are told apart.
pub mod Editions
-- The checks of stored bytes by their numbers.
pub mod InOrder
-- What is read does not depend on the bytes behind it.
pub mod Behind
